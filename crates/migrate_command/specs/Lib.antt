pub mod Bringing
pub mod Faults
pub mod Fronts
pub mod Migrates
pub mod Migrations
pub mod Told
