-- What the contracts of the many-way joins and selections say beyond the rules.
pub mod Zero
