pub mod Subpart
