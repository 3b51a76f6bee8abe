pub mod HistoryLemmas
pub mod ViewLemmas
pub mod LegalLemmas
pub mod PlainLemmas
