-- Laws that the proofs of the functions cite.
pub mod Rows
pub mod Cuts
pub mod FewLoops
