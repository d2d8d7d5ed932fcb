-- Laws that the proofs of the functions cite.
pub mod Sets
pub mod Looks
pub mod RowLoops
pub mod Wholes
pub mod Totals
pub mod Ends
