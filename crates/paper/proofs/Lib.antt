-- The theorems about the definitions of specs/, a folder for what each shows; docs/THEOREMS.md tells them in words.
pub mod known
pub mod layout
pub mod reading
pub mod machine
pub mod standard
pub mod replacing
