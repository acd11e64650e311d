-- The rules of extraction: what the walk keeps (State), both passes (First, Second), the walk (Walk), the records (Records),
-- the whole call (Call); which modules sources resolve to (Reach); the worked cards (Cards) and examples of our own (Example).
pub mod State
pub mod First
pub mod Second
pub mod Walk
pub mod Records
pub mod Call
pub mod Reach
pub mod Computes
pub mod Build
pub mod Cards
pub mod Example
