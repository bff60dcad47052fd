pub mod Register
pub mod Known
