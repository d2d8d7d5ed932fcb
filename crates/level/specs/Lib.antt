-- Level and rest, as calls.
pub mod Meets
pub mod Rule
