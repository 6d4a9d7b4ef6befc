-- What the proofs of a machine in lent memory cite.
pub mod Keeping
