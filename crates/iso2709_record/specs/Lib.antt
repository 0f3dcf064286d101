pub mod Written
pub mod First
pub mod Layout
pub mod Faults
pub mod Raw
pub mod Spelling
pub mod Texts
