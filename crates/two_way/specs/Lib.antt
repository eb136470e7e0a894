-- What the contracts say of two lists: what is left of them, and the piece that comes next.
pub mod Sides
pub mod Steps
