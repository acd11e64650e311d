-- How a buffer is shown that a call has left (Left), a scope (Modules), a refusal, and a refused call (Refusal).
pub mod Left
pub mod Modules
pub mod Refusal
