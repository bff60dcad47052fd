pub mod Layout
pub mod Reserved
pub mod Widths
pub mod Forms
pub mod Kinds
