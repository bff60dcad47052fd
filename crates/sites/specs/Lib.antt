pub mod Joining
pub mod Exchanged
pub mod TwoSites
pub mod Lives
