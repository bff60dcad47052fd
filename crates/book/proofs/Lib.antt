pub mod Parts
pub mod Order
pub mod ShownTests
pub mod Additions
pub mod Joins
pub mod DayThenBits
pub mod ShownExactly
pub mod EntryWords
