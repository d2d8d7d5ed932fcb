-- Laws of the step.
pub mod Puts
pub mod Looks
pub mod Stages
pub mod Starts
