-- Laws that the proofs of the functions cite.
pub mod Texts
pub mod Depths
pub mod Marks
pub mod FileTexts
