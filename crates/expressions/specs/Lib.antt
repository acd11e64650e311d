-- What a walked expression is (After); what the functions for calls of require do (Require); members of usages (Usage).
pub mod After
pub mod Require
pub mod Usage
