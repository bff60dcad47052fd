pub mod Scales
pub mod ToNearest
pub mod Carry
pub mod Exactly
pub mod Signs
pub mod Letters
pub mod Upto
