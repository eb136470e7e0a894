-- `Active` says what is promised, `Kept` how it is kept.
pub mod Active
pub mod Kept
