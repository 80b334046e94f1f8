pub mod OpeningFacts
pub mod KeyFacts
pub mod FirstBadFacts
pub mod FlowFacts
pub mod FlowMapFacts
