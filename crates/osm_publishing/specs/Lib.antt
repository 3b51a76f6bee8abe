pub mod Conversion
pub mod KeptLag
pub mod Lagging
pub mod Numbered
pub mod Publication
pub mod Steps
