pub mod Line
pub mod Text
pub mod Known
pub mod Refused
pub mod Channels
