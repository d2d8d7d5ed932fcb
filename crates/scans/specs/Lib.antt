-- The scans of a step's pairs, over tables, and the step's end.
pub mod Pairs
pub mod Ends
