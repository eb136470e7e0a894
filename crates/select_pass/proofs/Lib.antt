-- The laws of a selection: where its stretches start, what the lists have, and what its pass keeps.
pub mod Stretches
pub mod Carried
pub mod Selects
