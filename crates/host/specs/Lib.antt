pub mod Host
pub mod Parts
pub mod Laws
pub mod Known
