pub mod Ahead
pub mod Opening
pub mod Laws
pub mod Steps
