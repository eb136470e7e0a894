-- What the contracts say of heads.
pub mod Heads
