pub mod Good
pub mod Ranges
