pub mod Crosses
pub mod Gathered
pub mod Loaded
pub mod Outcomes
pub mod Stands
