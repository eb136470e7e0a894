-- The laws of the many-way joins and selections, about two calls: of two of them, and of one and a reading of what it wrote.
pub mod Calls
pub mod Readings
