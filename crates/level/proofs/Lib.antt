-- Laws that the proofs of the functions cite, and what the rules come to.
pub mod Searches
pub mod Goals
pub mod Parts
pub mod Answers
