-- The laws of many-way joins and selections: Combiners, Selections, Condition3, Room, Outcomes, Sheet.
pub mod Integers
pub mod Combiners
pub mod Selections
pub mod Condition3
pub mod Outcomes
pub mod Room
pub mod Sheet
