-- What the contracts of the form checker say beyond the rules. Assumes nothing.
pub mod Shape
