-- Laws for the code: a record at its place, numbers of at most eight bytes, what columns take, a loop over records, and ranges.
pub mod Records
pub mod Numbers
pub mod Taken
pub mod Turns
pub mod Ranges
