pub mod Open
pub mod Walk
