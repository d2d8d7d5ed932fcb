-- The problem file, what turns a call away, and what a build writes.
pub mod Limits
pub mod Verdict
pub mod Format
pub mod File
pub mod Marks
pub mod Checks
pub mod Build
