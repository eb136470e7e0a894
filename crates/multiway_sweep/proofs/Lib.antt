-- The laws of a sweep: its lanes and cursors, what is active at the frontier, its heaps, its steps, how it begins and that it is drained.
pub mod Lanes
pub mod Cursors
pub mod Front
pub mod Entered
pub mod Stands
pub mod Sorts
pub mod Steps
pub mod Filled
pub mod Sweeps
pub mod Begun
pub mod Drains
