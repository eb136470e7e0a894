-- The laws of the event listing: its rows, and from the judgement to the outcome.
pub mod Rows
pub mod Outcome
