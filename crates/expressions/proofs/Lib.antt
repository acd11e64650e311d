-- Laws of a walked expression: its id (IdentLaws), whether it is a require call (RequiredLaws), what it binds (BindingLaws).
-- Laws of the functions: fields without fixed bytes (BareLaws), ids (AfterLaws), literals of arguments (LiteralLaws), require calls (RequiredAtLaws), marks (MarkLaws),
-- a written callee (CalleeLaws), steps that write nothing (EffectLaws), properties (PropertyLaws), usages (UsageLaws).
pub mod IdentLaws
pub mod RequiredLaws
pub mod BindingLaws
pub mod BareLaws
pub mod AfterLaws
pub mod LiteralLaws
pub mod RequiredAtLaws
pub mod MarkLaws
pub mod CalleeLaws
pub mod EffectLaws
pub mod PropertyLaws
pub mod UsageLaws
