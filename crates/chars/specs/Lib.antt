pub mod Utf8
pub mod Width
pub mod Chars
pub mod Cut
pub mod Leads
pub mod Read
