pub mod Fates
pub mod Runs
