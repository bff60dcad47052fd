pub mod Packed
pub mod ReadBack
