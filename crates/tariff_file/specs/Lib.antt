-- The tariff file as definitions: `Layout` and `Reader` know no format, `File` is the format, `Given` when each refusal is due; `Examples` is computed.
pub mod Layout
pub mod Reader
pub mod File
pub mod Given
pub mod Examples
