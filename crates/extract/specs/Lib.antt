-- Extract: the rule of the call, and the moves that close up the bits of a word.
pub mod Moves
pub mod Rule
