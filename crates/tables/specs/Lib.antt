-- Tables of pairs in one lent array of numbers: which rows a table holds (Rows), and what a store leaves alone (Only).
pub mod Rows
pub mod Only
