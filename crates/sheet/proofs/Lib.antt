pub mod SheetLaws
pub mod DecimalLaws
