pub mod Sizes
pub mod Placed
