pub mod Seen
pub mod Known
