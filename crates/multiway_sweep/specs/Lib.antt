-- What the contracts of a sweep say: of cursors and the events left, of its arrays and steps, of how it begins and is drained.
pub mod Lanes
pub mod Cursors
pub mod Front
pub mod Stands
pub mod Steps
pub mod Begins
pub mod Sweeps
pub mod Drained
