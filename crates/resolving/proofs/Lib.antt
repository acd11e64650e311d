-- Records that were read (RecordsLaws), the numbers of their sources (NumbersLaws), what is
-- written of values (WritesLaws), of specifiers (SpecifiersLaws) and of records (ListLaws), and the whole call (AnswerLaws).
pub mod RecordsLaws
pub mod NumbersLaws
pub mod WritesLaws
pub mod SpecifiersLaws
pub mod ListLaws
pub mod AnswerLaws
