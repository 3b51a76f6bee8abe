pub mod CallLemmas
pub mod OftenLemmas
pub mod PlaceLemmas
pub mod FindLemmas
mod WritingLemmas
