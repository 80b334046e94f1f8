pub mod RowFacts
pub mod ReadingFacts
