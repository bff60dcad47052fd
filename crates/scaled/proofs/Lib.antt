pub mod Once
pub mod Product
pub mod Pattern
pub mod Exactly
pub mod Listed
