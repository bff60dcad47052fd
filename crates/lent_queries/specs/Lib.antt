pub mod Health
pub mod Laws
pub mod Lent
