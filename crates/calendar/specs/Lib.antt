pub mod Calendar
pub mod FourYears
pub mod Known
