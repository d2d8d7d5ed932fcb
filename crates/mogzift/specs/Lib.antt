-- What the calls for C and Rust return and tell.
pub mod Answer
