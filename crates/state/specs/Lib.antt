-- What the walk keeps, in one array: where the tables lie and which state of the rules they show (Cells), that an array is good in one way alone
-- (OneGood), and what a function on them does (Does).
pub mod Cells
pub mod OneGood
pub mod Does
