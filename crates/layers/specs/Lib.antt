-- One step of the graph over tables of what is together.
pub mod Step
pub mod Write
