pub mod Calls
pub mod Objects
pub mod Files
pub mod MemDisk
pub mod Room
pub mod Disk
pub mod DiskLaws
