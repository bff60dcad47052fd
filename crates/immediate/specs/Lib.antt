pub mod Kept
pub mod Ranges
