pub mod Tells
pub mod Block
pub mod InBlocks
pub mod Channels
