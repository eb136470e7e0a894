-- What the readings of prices say.
pub mod Reading
pub mod Batch
