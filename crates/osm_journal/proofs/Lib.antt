pub mod BatchLemmas
pub mod JournalLemmas
pub mod OpeningLemmas
pub mod StandardFacts
