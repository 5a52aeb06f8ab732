pub mod Sheet
pub mod Decimal
