-- Laws that the proofs of the functions cite, and what an accepted run means.
pub mod Sequences
pub mod Runs
pub mod Reports
pub mod Packs
pub mod Courses
pub mod Walks
pub mod Steps
pub mod Starts
pub mod Touches
pub mod Idles
pub mod Settles
pub mod Fires
pub mod Evens
pub mod Rows
pub mod Built
pub mod Tasks
