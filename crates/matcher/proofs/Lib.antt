-- Facts about plain lists and numbers that the functions' proofs cite, and what the promises allow and shut out.
pub mod Answering
pub mod Impostors
