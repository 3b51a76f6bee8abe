mod StartLemmas
pub mod BatchLemmas
pub mod LawLemmas
pub mod KeptLemmas
pub mod OtherLemmas
mod AgainLemmas
mod EndLemmas
pub mod TakingLemmas
mod NextLemmas
mod HeadLemmas
mod LaidLemmas
