pub mod Entry
pub mod Shows
pub mod Book
pub mod Known
pub mod DayThenBits
pub mod ShownExactly
pub mod EntryWords
