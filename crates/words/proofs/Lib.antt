-- Laws about words and lists that loops go by.
pub mod Folds
pub mod Places
pub mod Writes
pub mod MemberLoops
pub mod Lowest
pub mod Cells
pub mod Spreads
pub mod Squares
pub mod Zeros
pub mod FoldLaws
pub mod Compares
