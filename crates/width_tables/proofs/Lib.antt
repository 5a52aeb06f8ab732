pub mod CharacterLaws
pub mod PieceLaws
pub mod AlikeLaws
pub mod PublishedLaws
pub mod TablesLaws
pub mod RequestLaws
