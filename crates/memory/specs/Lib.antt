-- What the contracts of a machine in lent memory cite.
pub mod Memory
