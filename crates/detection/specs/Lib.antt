pub mod Detection
pub mod Example
