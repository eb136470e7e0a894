-- The laws of the price at a point: Halving, Reading and Batch.
pub mod Halving
pub mod Reading
pub mod Batch
