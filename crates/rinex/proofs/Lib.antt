pub mod Clock
pub mod Columns
pub mod Naturals
pub mod KnownRecords
pub mod Shape
