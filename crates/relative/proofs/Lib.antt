pub mod RelativeCode
pub mod Symbols
