-- What one field spells (Spelled), and what the fields of a request ask (Asked).
pub mod Spelled
pub mod Asked
