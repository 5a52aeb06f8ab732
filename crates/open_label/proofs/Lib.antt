pub mod SameLaws
pub mod OpenLaws
pub mod UnderLaws
pub mod ScanLaws
pub mod WalkLaws
