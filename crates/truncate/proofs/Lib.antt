pub mod CutLaws
pub mod PlanLaws
pub mod HeldLaws
pub mod CallLaws
