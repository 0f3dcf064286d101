pub mod Counting
pub mod CsvReading
pub mod Pieces
pub mod Searching
pub mod Sharing
pub mod Totals
pub mod Walked
