pub mod Cut
pub mod Jobs
pub mod Joined
pub mod Loads
pub mod Placed
pub mod Ranges
pub mod Same
