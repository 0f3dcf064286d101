pub mod Places
pub mod Tapes
pub mod Crashes
pub mod Rooms
