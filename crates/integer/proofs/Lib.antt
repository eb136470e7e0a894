-- The laws of points and of their keys.
pub mod Laws
pub mod Keys
