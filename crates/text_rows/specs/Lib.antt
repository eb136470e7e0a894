-- The parts of an answer's text as they are written.
pub mod Parts
