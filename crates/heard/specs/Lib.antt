pub mod Heard
pub mod SkyHeard
pub mod Laws
pub mod Witness
