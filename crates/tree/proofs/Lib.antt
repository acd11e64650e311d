-- Laws of the byte form. Reading is exact: what is read is sound (SoundLaws), and what is sound is read (CompleteLaws). A walk steps from a
-- field to its parts and siblings by StandingLaws.
pub mod Table
pub mod RunLaws
pub mod SliceLaws
pub mod GrammarLaws
pub mod FixedLaws
pub mod LayoutLaws
pub mod TreeLaws
pub mod AccessLaws
pub mod PartLaws
pub mod ReadLaws
pub mod StandingLaws
pub mod SoundLaws
pub mod CompleteLaws
pub mod WidthLaws
pub mod TagWidthLaws
pub mod PackedLaws
pub mod PieceLaws
pub mod LeafLaws
