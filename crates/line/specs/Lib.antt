pub mod Rest
pub mod Line
