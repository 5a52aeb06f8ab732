pub mod Tally
pub mod Shown
pub mod Code
pub mod Pins
