pub mod Elide
pub mod Back
pub mod Pins
