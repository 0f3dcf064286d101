pub mod Beside
pub mod Rows
pub mod Standings
pub mod Totals
