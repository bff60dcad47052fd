pub mod Slots
pub mod Laws
pub mod Exchanges
pub mod Union
pub mod TwoSites
pub mod Lives
