pub mod ReplayLaws
pub mod AddLaws
pub mod AddClean
pub mod LeftLaws
pub mod Shown
pub mod PinsHold
