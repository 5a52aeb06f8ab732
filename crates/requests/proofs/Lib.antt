pub mod RequestLaws
pub mod ApplyLaws
