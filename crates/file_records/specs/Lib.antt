-- What the contracts say: how reading ends, and what the columns take.
pub mod Ends
pub mod Columns
