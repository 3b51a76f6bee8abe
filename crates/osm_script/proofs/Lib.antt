pub mod ScriptLemmas
pub mod ReplayLemmas
