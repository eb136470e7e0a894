-- What the contract of a step of a lent sweep says.
pub mod Lent
