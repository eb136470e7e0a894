-- Laws of the combiners. Assumes nothing.
mod Laws
mod Weights
pub mod Tallies
