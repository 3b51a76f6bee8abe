pub mod Holding
pub mod HoldingLaws
pub mod Steps
