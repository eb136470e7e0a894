-- What the contract of a pass says: all pieces of two lists, and the columns that they are laid into.
pub mod Pairs
pub mod Columns
