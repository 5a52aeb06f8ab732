pub mod HeadLaws
pub mod HeadWidthLaws
pub mod RestLaws
pub mod WordCharLaws
pub mod LineLaws
pub mod VisibleLaws
pub mod RoomLaws
pub mod LoopLaws
