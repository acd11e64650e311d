-- Laws of the records that are written at the end. Of the rules alone: specifiers in front of attributes (PartLaws), what the first pass gathers in records
-- (GatheredLaws), what the second adds (TakenLaws), and so the records of a run as both trees tell them (RebuiltLaws). Of the code: binding
-- ids (PatternLaws), entries one by one (OnwardLaws), literals by their places (LiteralLaws), lazy records and forced sources (LazyLaws), the parts of an import and walks over
-- rows that were read (SpecifierLaws), collected records (CollectedLaws), the list of imports (ListingLaws), chains through it (ChainLaws). For callers: ToldLaws.
pub mod PartLaws
pub mod GatheredLaws
pub mod TakenLaws
pub mod RebuiltLaws
pub mod PatternLaws
pub mod OnwardLaws
pub mod LiteralLaws
pub mod LazyLaws
pub mod SpecifierLaws
pub mod CollectedLaws
pub mod ListingLaws
pub mod ChainLaws
pub mod ToldLaws
