-- What the contracts of the exported calls cite.
pub mod Replies
