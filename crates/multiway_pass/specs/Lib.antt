-- What the contracts of a pass over stretches say.
pub mod Pieces
pub mod Passes
pub mod Outputs
