pub mod FieldsLaws
pub mod HexLaws
pub mod PutLaws
pub mod WriteLaws
pub mod DecimalLaws
