pub mod Totals
pub mod Lines
pub mod Faults
pub mod Ends
