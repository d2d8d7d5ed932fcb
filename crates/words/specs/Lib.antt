-- Widths, lent memory, and tables of words.
pub mod Width
pub mod Memory
pub mod Rows
pub mod Squares
pub mod Members
pub mod Folds
