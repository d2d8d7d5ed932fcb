-- The build, as a call.
pub mod Rooms
pub mod Steps
