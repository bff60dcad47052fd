pub mod Five
pub mod Carrier
pub mod Laws
