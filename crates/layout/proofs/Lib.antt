pub mod EveryKind
pub mod Rows
pub mod KindNumbers
pub mod ReservedBits
