-- What proofs use beside the rules' definitions. Assumes nothing.
pub mod Below
pub mod Long
pub mod Moments
