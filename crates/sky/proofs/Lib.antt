pub mod Front
pub mod Lines
pub mod Strings
pub mod Laws
