-- Laws that the proofs of the functions cite.
pub mod Builds
pub mod Repeats
pub mod Listings
pub mod Whole
pub mod Answers
