-- Theorems over several calls, on the rules: the twelve cards as one sentence (Cards); the words and
-- statements of demand 3 (Demand, Lists), a scope's files requested anew (Relending), and worked cases (DemandExample, ListsExample).
pub mod Cards
pub mod Demand
pub mod Lists
pub mod Relending
pub mod DemandExample
pub mod ListsExample
