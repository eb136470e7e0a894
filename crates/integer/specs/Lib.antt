-- What the contracts of points say. Assumes nothing.
pub mod Order
pub mod Next
pub mod Faithful
pub mod KeyAt
pub mod Widths
