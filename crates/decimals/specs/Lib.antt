pub mod Decimal
pub mod Theorems
pub mod Codes
pub mod Known
