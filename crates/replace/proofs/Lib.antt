pub mod RecordLaws
pub mod TurnLaws
pub mod PlanLaws
pub mod ScanLaws
pub mod CallLaws
