-- The laws of heaps: order and contents, and moves up and down.
pub mod Laws
pub mod Moves
