-- The laws of places and of figures over them.
pub mod Tally
pub mod Slots
