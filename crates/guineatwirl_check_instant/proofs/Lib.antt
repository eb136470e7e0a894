-- The laws of a list of tariff structs of instants. Assumes nothing.
pub mod Alone
