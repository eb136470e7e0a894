-- The laws of the tariff file: `Read`, `Longest` and `Given` have those of a file, `File` and `Halts` those of its records; `Examples` is computed. `Number`, `Record`, `Sequence` and `Stops` know no format; `Places` and `Columns` are for the code.
pub mod Number
pub mod Sequence
pub mod Record
pub mod Stops
pub mod File
pub mod Places
pub mod Columns
pub mod Read
pub mod Longest
pub mod Halts
pub mod Given
pub mod Examples
