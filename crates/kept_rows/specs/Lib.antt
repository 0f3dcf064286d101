pub mod Ascending
pub mod Rows
pub mod Standing
pub mod Tests
