-- What the functions on an import's parts answer and do (Parts).
pub mod Parts
