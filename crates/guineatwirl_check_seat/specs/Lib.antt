-- Tariff structs of seats as the rules see them. Assumes nothing.
pub mod Pieces
