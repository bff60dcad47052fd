pub mod Walk
pub mod Months
