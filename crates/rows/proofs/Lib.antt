pub mod RowLaws
pub mod OutputLaws
