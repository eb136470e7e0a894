-- Laws of lists in columns, and of whole files.
pub mod Lists
pub mod Files
