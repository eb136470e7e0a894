-- The laws of a join's sweep. Assumes nothing.
pub mod Lent
pub mod Turns
pub mod Stretches
pub mod First
pub mod Begins
