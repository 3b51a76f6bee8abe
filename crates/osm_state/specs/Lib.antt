pub mod State
pub mod Properties
pub mod StateText
pub mod StateFault
pub mod Path
pub mod StateLaws
pub mod Steps
