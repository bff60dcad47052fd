pub mod Told
pub mod Same
pub mod Lived
pub mod Histories
pub mod Epoch
pub mod Apart
pub mod Isolation
pub mod Laws
