-- What the contracts of the event listing say.
pub mod Listing
