-- The rule of a run, and what its steps have done so far, in either version.
pub mod Course
pub mod Fire
pub mod Even
pub mod Run
