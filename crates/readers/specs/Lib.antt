pub mod Entries
pub mod Admit
