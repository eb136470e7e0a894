-- The laws of the passes: what is known before each, and what they come to.
pub mod Runs
