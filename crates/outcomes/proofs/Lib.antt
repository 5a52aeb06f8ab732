pub mod OutcomeLaws
pub mod SecondLaws
pub mod AloneLaws
