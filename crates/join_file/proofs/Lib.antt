-- What a printing call answers.
pub mod Counted
