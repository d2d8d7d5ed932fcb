-- Laws that the proofs of the functions cite.
pub mod Memos
pub mod Entries
pub mod Singles
