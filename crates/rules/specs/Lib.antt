-- The rules as definitions: these modules are what a reader must believe. What proofs merely use stands under `Proving`.
pub mod Piece
pub mod Same
pub mod Runs
pub mod Lists
pub mod Answer
pub mod Said
pub mod Sweep
pub mod TwoWay
pub mod Merged
pub mod Paired
pub mod Listed
pub mod Outcomes
pub mod Refusals
pub mod Proving
