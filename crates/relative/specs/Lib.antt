pub mod Relative
pub mod Polarity
pub mod Calls
pub mod Orders
pub mod Known
