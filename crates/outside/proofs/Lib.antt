pub mod Closings
pub mod Counts
pub mod Disks
pub mod Fronts
pub mod MovedBytes
pub mod Places
pub mod Rooms
