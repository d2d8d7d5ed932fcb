-- The greatest depth that fits a memory, and the text that `levels` prints.
pub mod Depth
pub mod Decimal
pub mod Text
pub mod Lines
pub mod Wrote
