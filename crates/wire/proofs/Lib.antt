pub mod Numbers
pub mod Begun
pub mod Entries
pub mod Laws
