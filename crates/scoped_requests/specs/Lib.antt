-- The text of answers to requests with a scope.
pub mod Texts
