-- Tariff structs of instants as the rules see them. Assumes nothing.
pub mod Pieces
