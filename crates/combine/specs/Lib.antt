-- What the contracts of the combiners say. Assumes nothing.
pub mod Figures
