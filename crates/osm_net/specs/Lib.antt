pub mod Net
pub mod Laid
pub mod Lists
pub mod NetLaws
pub mod Steps
