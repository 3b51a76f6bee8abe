pub mod EchoLemmas
pub mod WordLemmas
pub mod CommandLemmas
