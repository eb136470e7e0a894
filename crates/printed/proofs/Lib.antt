-- The laws of the printed text: `Files` is for a reader, `Records` for the code; `Accepted`, `Firsts` and `Answers` lead there; `Examples` is computed.
pub mod Accepted
pub mod Firsts
pub mod Answers
pub mod Files
pub mod Records
pub mod Examples
