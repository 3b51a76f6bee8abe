pub mod PassLemmas
pub mod ObjectLemmas
pub mod FlatLemmas
pub mod CopyLemmas
pub mod DataLemmas
pub mod LeftLemmas
pub mod LaidLemmas
pub mod KeptLemmas
