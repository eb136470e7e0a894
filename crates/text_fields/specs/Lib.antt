-- Fields as they are spelled, a text written into a lent buffer, and rows as lines of text.
pub mod Fields
pub mod Writing
pub mod Tables
