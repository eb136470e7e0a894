-- A list of structs as the rules see it, and what C is told of it. Assumes nothing.
pub mod Placed
pub mod Told
