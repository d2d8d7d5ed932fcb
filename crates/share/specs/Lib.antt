-- Enough of the weight: the rule of the call, and how the code goes about it.
pub mod Rule
pub mod Sums
