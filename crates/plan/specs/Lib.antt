-- The relaxed plan's call.
pub mod Plan
pub mod Search
