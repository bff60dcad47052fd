pub mod Cards
pub mod Numbers
