pub mod Bytes
pub mod Wrote
pub mod Finished
pub mod Example
