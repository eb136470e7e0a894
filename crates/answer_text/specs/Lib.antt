-- The text of an answer as definitions: numbers, lines, answers, and a text in a buffer.
pub mod Numbers
pub mod Lines
pub mod Answers
pub mod Buffer
