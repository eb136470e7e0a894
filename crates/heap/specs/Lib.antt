-- What the contracts of a heap say: the order of entries, what a heap is, one with a hole, and how a heap changes.
pub mod Order
pub mod Heap
pub mod Holes
pub mod Moved
