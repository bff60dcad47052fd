pub mod Line
pub mod Mark
pub mod Front
pub mod Calls
