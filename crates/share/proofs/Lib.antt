-- Laws that the proofs of the call cite.
pub mod Totals
pub mod Holders
pub mod Seeks
