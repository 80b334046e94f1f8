pub mod Opening
pub mod Steps
pub mod FirstBad
pub mod Fit
pub mod FlowMap
