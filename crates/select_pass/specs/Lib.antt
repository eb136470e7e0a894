-- What the contracts of a selection say of stretches, and of what the lists have on them.
pub mod Stretches
pub mod Selections
