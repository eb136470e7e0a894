-- The laws of the form checker. Assumes nothing.
pub mod Laws
