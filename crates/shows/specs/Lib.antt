pub mod Shows
pub mod Changes
pub mod FrameNumbers
pub mod ShownExactly
pub mod Witness
