pub mod ElideLaws
pub mod BackLaws
pub mod PartLaws
pub mod CallLaws
pub mod PinsHold
