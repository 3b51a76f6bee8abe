pub mod BeginLemmas
pub mod KeepingLemmas
pub mod FirstLemmas
pub mod PassLemmas
pub mod SinkLemmas
