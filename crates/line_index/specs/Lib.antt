pub mod Starts
pub mod Index
pub mod Code
pub mod Shown
pub mod Pins
