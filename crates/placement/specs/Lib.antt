-- How an id stands in a tree (Stands); 'well placed', clause by clause (Placed); worked cases of both (Example).
pub mod Stands
pub mod Placed
pub mod Example
