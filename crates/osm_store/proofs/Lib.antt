pub mod FileLemmas
pub mod FrameLemmas
