pub mod PlacedLaws
pub mod FateLaws
pub mod RunLaws
