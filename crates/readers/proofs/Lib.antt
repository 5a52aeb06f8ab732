pub mod EntryLaws
pub mod FloorLaws
pub mod PutLaws
pub mod SizedLaws
pub mod AdmitLaws
