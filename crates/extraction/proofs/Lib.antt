-- Laws of a pass: what it keeps (CellsLaws), each item (ItemLaws), one after the other (PassLaws).
pub mod CellsLaws
pub mod ItemLaws
pub mod PassLaws
-- Laws of the call: the marks (WrapLaws), what is held to its buffer (HeldLaws), modules that were read (ReadLaws), the own file and the first
-- pass (OnceLaws), the second pass (AgainLaws), the lent lists (ListsLaws), and the whole (TopLaws).
pub mod WrapLaws
pub mod HeldLaws
pub mod ReadLaws
pub mod OnceLaws
pub mod AgainLaws
pub mod ListsLaws
pub mod TopLaws
