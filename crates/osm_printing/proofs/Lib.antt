pub mod SaveLemmas
pub mod ShowLemmas
pub mod CopyLemmas
pub mod PrintLemmas
pub mod PutLemmas
pub mod PartLemmas
pub mod KeptLemmas
pub mod LaidLemmas
