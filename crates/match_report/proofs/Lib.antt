pub mod Digits
pub mod Folds
pub mod Tables
pub mod Taken
pub mod Walks
pub mod Writes
