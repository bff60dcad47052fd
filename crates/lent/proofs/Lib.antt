pub mod Packed
pub mod Parts
pub mod Gate
pub mod Turns
pub mod Laws
