pub mod Status
pub mod Printed
pub mod Grind
pub mod InputRun
pub mod Run
