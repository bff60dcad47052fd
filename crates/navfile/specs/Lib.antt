pub mod Header
pub mod File
pub mod Calls
pub mod Laws
pub mod Witness
