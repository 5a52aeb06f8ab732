pub mod PlanLaws
pub mod SizeLaws
