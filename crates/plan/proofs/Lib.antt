-- Laws of the plan's search, and what an accepted plan means.
pub mod Remaining
pub mod Turns
pub mod Searches
pub mod Supports
pub mod Counts
pub mod Descents
pub mod Readings
pub mod Answers
pub mod Built
