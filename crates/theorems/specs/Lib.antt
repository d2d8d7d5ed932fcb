-- The terms in which demand 3 is stated.
pub mod Setting
