-- `Sets` and `Stands` are for callers; they know nothing of how a set is kept.
pub mod Sets
pub mod Stands
mod Places
mod Keeps
