-- What is right for a scope: contexts (Id), the scope's modules and each call on them (Modules), how the code keeps them (ScopeValue).
pub mod Id
pub mod Modules
pub mod ScopeValue
