pub mod Laws
pub mod Scan
pub mod Loop
pub mod Sizes
