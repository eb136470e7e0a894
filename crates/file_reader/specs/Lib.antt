-- What the contracts say of lists in columns, and of a file's contents.
pub mod Fills
pub mod Holds
