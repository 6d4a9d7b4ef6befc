-- What the proofs of the exported calls cite.
pub mod OneReply
pub mod BuildThenRun
