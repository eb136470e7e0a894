-- The laws of a sweep that is lent: what its steps take, and that it is emptied.
pub mod Empties
pub mod Ruled
