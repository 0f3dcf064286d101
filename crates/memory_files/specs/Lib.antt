pub mod ByteDisk
pub mod Reading
