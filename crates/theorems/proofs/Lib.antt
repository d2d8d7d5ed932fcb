-- Demand.antt states what the calls promise together; the others define its setting and prove it.
pub mod Founds
pub mod Levels
pub mod Carried
pub mod Bounds
pub mod Extracts
pub mod Plans
pub mod Leaks
pub mod Pages
pub mod Pairs
pub mod Effects
pub mod Looks
pub mod Within
pub mod Shares
pub mod Idles
pub mod Demand
