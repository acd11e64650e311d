-- Laws of imports: fixed bytes (WidthLaws), rules that ask for room (MadeLaws), export specifiers (ExportLaws), what is noted of a specifier (NoteLaws),
-- an import's parts as they stand in the tree (PartsLaws), all its specifiers noted
-- (NoteAllLaws), its attributes written (AttributesLaws), its sole namespace (SoleLaws), its
-- head (HeadLaws), usages that become specifiers (TakenLaws), the second pass (AgainLaws), what a record gets (GatherLaws),
-- how many namespaces an import brings (CountLaws), and the first pass (FirstLaws).
pub mod WidthLaws
pub mod MadeLaws
pub mod ExportLaws
pub mod NoteLaws
pub mod PartsLaws
pub mod NoteAllLaws
pub mod AttributesLaws
pub mod SoleLaws
pub mod HeadLaws
pub mod TakenLaws
pub mod AgainLaws
pub mod GatherLaws
pub mod CountLaws
pub mod FirstLaws
