-- The laws of the two-way joins: from the judgement and the passes to the outcome, and two calls.
pub mod Passes
pub mod Calls
