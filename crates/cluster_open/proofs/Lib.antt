pub mod FirstBadFacts
pub mod InputFacts
pub mod ReadFacts
pub mod Numbered
pub mod Dealt
pub mod OneRun
