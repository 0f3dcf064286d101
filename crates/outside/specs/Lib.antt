pub mod Fault
pub mod Sink
pub mod Disk
pub mod Room
pub mod Lefts
