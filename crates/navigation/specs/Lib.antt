pub mod Writes
pub mod Gathers
pub mod Laws
