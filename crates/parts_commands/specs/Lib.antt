pub mod Exports
pub mod Jobs
pub mod Joining
pub mod Reading
pub mod Reports
pub mod Taking
pub mod Telling
