pub mod Cells
pub mod Measured
pub mod OnPage
pub mod Shown
pub mod Pins
