-- What the functions of the walk do (Walking).
pub mod Walking
