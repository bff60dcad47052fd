pub mod Sequence
pub mod Values
pub mod Floats
pub mod NoWord
pub mod WordAnswers
pub mod FourStrings
pub mod Laws
