-- A page of goals, as a call.
pub mod Rule
pub mod Memo
