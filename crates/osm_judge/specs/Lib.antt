pub mod Breaks
pub mod Judge
pub mod Legal
