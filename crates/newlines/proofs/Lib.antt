pub mod BreakLaws
pub mod CountLaws
