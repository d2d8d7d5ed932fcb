-- Laws that the proofs of the functions and of the theorems cite.
pub mod Moves
pub mod MoveLoops
pub mod Cuts
pub mod OfBuilds
