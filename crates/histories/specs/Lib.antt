pub mod Witness
pub mod Panel
pub mod Causes
pub mod Cards
pub mod TwoSites
