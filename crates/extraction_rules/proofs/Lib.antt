-- Laws about the rules of extraction. What every elementary step keeps, the walk keeps (StepLaws, WalkLaws), and so the sanity laws
-- (SanityLaws, RunLaws); the walk keeps the grammar (ResultLaws, WithinLaws), so that what a pass leaves can be read (ReadableLaws), and
-- the records whole (RecordedLaws, WholeLaws), so that they are read back (RecordsLaws). The wrapping marks that an accepted call sets
-- are those of its forced sources (MarksLaws). What an accepted call is made of (ExtractedLaws). For demand 3: the grammar behind the imports
-- (RegularLaws, TagLaws), what the first pass leaves of trees there (AlikeLaws, ItemsLaws), and the tables (SeekLaws, TableLaws,
-- SpaceLaws). For all: what is kept of fields (KeepLaws), and which tags and items the walk keeps (StayLaws).
pub mod TestLaws
pub mod ListLaws
pub mod OutcomeLaws
pub mod FirstLaws
pub mod StepLaws
pub mod WalkLaws
pub mod SanityLaws
pub mod ValueLaws
pub mod ImportsLaws
pub mod RunLaws
pub mod RuleLaws
pub mod ExactLaws
pub mod ShapeLaws
pub mod ResultLaws
pub mod WithinLaws
pub mod ReadableLaws
pub mod MarksLaws
pub mod RecordedLaws
pub mod WholeLaws
pub mod RecordsLaws
pub mod ExtractedLaws
pub mod RegularLaws
pub mod AlikeLaws
pub mod ItemsLaws
pub mod SpaceLaws
pub mod KeepLaws
pub mod SeekLaws
pub mod TableLaws
pub mod TagLaws
pub mod StayLaws
