pub mod Scaled
pub mod Units
pub mod Known
