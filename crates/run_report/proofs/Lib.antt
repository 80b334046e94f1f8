mod Counts
mod LineByLine
pub mod EventKinds
mod Fields
mod Addresses
mod SameLine
mod Fitting
pub mod OneRun
mod WorkedRows
mod DeletionRows
