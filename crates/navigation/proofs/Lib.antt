pub mod Read
pub mod Found
pub mod Answered
pub mod Laws
