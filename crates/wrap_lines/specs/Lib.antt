pub mod WrapBytes
