pub mod Life
pub mod ByValue
pub mod Histories
pub mod Isolation
pub mod Apart
pub mod Laws
pub mod Known
