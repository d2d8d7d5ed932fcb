-- Laws that the proofs of the two calls cite.
pub mod Possibles
pub mod Both
