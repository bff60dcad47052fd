pub mod Sixteen
pub mod Fields
pub mod Block
pub mod Written
pub mod Laws
pub mod Orders
pub mod Known
