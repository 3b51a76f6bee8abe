pub mod MemoryLemmas
pub mod SameLemmas
pub mod EntryLemmas
pub mod MirrorLemmas
pub mod MirrorLaws
