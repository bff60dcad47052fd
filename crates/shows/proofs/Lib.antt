pub mod Shows
pub mod Turns
pub mod Changes
pub mod FrameNumbers
pub mod ShownExactly
