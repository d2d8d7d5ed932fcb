-- Laws that the proofs of the functions cite.
pub mod Verdicts
pub mod Places
pub mod Links
pub mod Files
pub mod Owners
pub mod Ladder
pub mod Equals
pub mod Graphs
pub mod WithStates
