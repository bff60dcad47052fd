pub mod Table41
pub mod Sky
pub mod Refused
