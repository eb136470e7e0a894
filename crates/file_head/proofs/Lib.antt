-- Laws of heads.
pub mod Heads
