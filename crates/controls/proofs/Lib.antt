pub mod CodeLaws
pub mod ControlLaws
