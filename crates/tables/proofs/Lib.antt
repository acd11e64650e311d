-- Laws of rows in cells (RowLaws), and of what a store leaves alone (OnlyLaws), for callers.
pub mod RowLaws
pub mod OnlyLaws
