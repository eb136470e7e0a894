-- What the proofs use: texts in a buffer, a writer, a text that grows step by step, lines and rows, and numbers by their signs and as
-- the library prints them.
pub mod Buffer
pub mod Writing
pub mod Steps
pub mod Lines
pub mod Signs
pub mod Decimal
