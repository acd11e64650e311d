-- Proofs of what is claimed: the sentence on lists of calls (ListsLaws) and demand 3 (DemandLaws, from TopLaws): what well placed items say around
-- a namespace's import, what each pass leaves of it, of its uses and of its record, and what resolving makes of that. A scope's files,
-- requested anew (RelendingLaws), and resolving with them (UnmarkedLaws).
pub mod ListsLaws
pub mod EndsLaws
pub mod CleanLaws
pub mod CoreLaws
pub mod FirstPassLaws
pub mod GoneLaws
pub mod HeldLaws
pub mod ImportedLaws
pub mod OutFieldLaws
pub mod OutLaws
pub mod OutsLaws
pub mod PairedLaws
pub mod RecordLaws
pub mod ResolvesLaws
pub mod SourcesLaws
pub mod SettledLaws
pub mod SpecifierLaws
pub mod SurroundedLaws
pub mod TidyLaws
pub mod TopLaws
pub mod UsesLaws
pub mod WorkedLaws
pub mod DemandLaws
pub mod RelendingLaws
pub mod UnmarkedLaws
