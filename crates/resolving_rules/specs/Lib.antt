-- The rules of resolving: numbering and the resolved list (Resolve), the whole call (Call); the worked cards (Cards) and examples
-- of our own (Example).
pub mod Resolve
pub mod Call
pub mod Computes
pub mod Cards
pub mod Example
