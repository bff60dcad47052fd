pub mod Times
pub mod Lines
pub mod Record
pub mod Theorems
pub mod Known
