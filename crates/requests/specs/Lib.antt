-- The text of answers to requests without a scope (Plain), and of any answer (Answers).
pub mod Plain
pub mod Answers
