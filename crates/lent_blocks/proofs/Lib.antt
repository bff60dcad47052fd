pub mod Asks
pub mod Told
pub mod Laws
