pub mod Filled
pub mod Healths
pub mod Laws
pub mod Said
pub mod Slots
