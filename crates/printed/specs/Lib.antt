-- The printed text of a file as a definition.
pub mod Printed
