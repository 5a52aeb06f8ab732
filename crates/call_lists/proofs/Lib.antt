pub mod StateLaws
pub mod RunLaws
pub mod PromiseLaws
