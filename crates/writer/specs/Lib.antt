pub mod Write
pub mod Sizes
