pub mod Shown
pub mod Window
pub mod Held
pub mod Laws
pub mod Known
