pub mod Strings
pub mod Offered
pub mod OnceOnly
