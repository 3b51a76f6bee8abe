pub mod EscapeLemmas
pub mod LineLemmas
pub mod TimeLemmas
pub mod StateLemmas
pub mod PathLemmas
pub mod WrittenLemmas
mod StandardFacts
