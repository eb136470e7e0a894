-- The laws of what is left of two lists: the piece that comes next, taken off.
pub mod Peel
pub mod Numbers
pub mod Sides
pub mod Emit
pub mod Next
