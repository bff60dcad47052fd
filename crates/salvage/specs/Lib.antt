pub mod Items
pub mod Rules
pub mod Writing
pub mod Laws
pub mod Known
