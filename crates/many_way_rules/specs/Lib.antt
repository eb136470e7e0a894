-- Many-way joins and selections as definitions: these modules are what a reader must believe.
pub mod Combiners
pub mod Selections
pub mod Operations
pub mod Outcomes
pub mod Sheet
