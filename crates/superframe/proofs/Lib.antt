pub mod Table41
pub mod Places
pub mod Encoder
pub mod Lowest
