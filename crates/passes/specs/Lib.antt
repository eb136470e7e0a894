-- What the contracts of the passes say.
pub mod Conclusion
pub mod Runs
