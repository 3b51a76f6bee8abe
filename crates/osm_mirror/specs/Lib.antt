pub mod Mirror
pub mod Room
pub mod Entries
