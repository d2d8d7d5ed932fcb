-- Start states known within bounds: the rules of the two calls.
pub mod Rule
