pub mod SlotLemmas
pub mod AreaLemmas
pub mod CountLemmas
