-- Two-way rows as text.
pub mod Pairs
