pub mod Recorder
pub mod Shown
pub mod Pins
