pub mod PointLogs
pub mod Taking
pub mod Adding
pub mod Refusals
pub mod Rooms
pub mod Checkpoints
pub mod Quick
pub mod Exporting
