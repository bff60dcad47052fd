pub mod Taking
pub mod Handing
pub mod Along
pub mod Histories
pub mod Isolation
pub mod Laws
pub mod Witness
