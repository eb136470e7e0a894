-- The laws of a list of tariff structs of seats. Assumes nothing.
pub mod Alone
