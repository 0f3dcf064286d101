pub mod Texts
pub mod Fields
pub mod Records
pub mod Entries
pub mod OneReading
pub mod OneEntry
pub mod Written
