-- What the contracts of a join's sweep say.
pub mod Stretches
