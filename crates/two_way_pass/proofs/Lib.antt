-- The laws of a pass: two lists that the form checker passes, pieces laid into columns one after the other, and columns that are lent on.
pub mod Lists
pub mod Laying
pub mod Same
