pub mod ChoicesLemmas
pub mod DealingLemmas
pub mod Ranks
pub mod Sorting
