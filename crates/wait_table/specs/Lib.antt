pub mod KeyNumbers
pub mod Waits
pub mod Sound
pub mod Table
