-- What the proofs of whole answers use: a text printed, or none of it; an answer's parts.
pub mod Prints
