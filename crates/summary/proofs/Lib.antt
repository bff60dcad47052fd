pub mod Passed
pub mod Means
pub mod EmptyBook
