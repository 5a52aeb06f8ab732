pub mod EndsLaws
pub mod PlanLaws
pub mod PutLaws
pub mod CellLaws
pub mod Shown
pub mod CallLaws
pub mod PinsHold
