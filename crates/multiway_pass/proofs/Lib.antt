-- The laws of a pass over stretches: Walks holds for any value, rule and columns, Merges is its instance.
pub mod Rulings
pub mod Columns
pub mod Outputs
pub mod Walks
pub mod Merges
