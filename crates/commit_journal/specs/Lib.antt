pub mod Log
pub mod Versions
pub mod Journal
pub mod Reading
pub mod Taking
pub mod Begun
pub mod Tails
