pub mod Found
pub mod Steps
pub mod Along
pub mod Histories
pub mod Laws
pub mod Isolation
