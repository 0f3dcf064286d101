pub mod Windows
pub mod Scans
pub mod Cuts
pub mod Items
pub mod Streams
