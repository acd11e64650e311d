-- Laws of the modules of a scope, for callers (Laws), and of the arrays that keep them, for this crate's functions (Kept).
pub mod Laws
mod ScopeValueLaws
