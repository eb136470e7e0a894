-- The laws of a list of tariffs. Assumes nothing.
pub mod Laws
pub mod Alone
