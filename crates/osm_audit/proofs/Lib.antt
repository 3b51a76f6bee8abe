pub mod StateLemmas
pub mod ChangeLemmas
pub mod NumberLemmas
pub mod ReportLemmas
pub mod TopLemmas
pub mod FoundLemmas
pub mod WholeLemmas
