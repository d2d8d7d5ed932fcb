-- What is together, over tables.
pub mod Cells
pub mod Interference
pub mod Effects
pub mod Kept
