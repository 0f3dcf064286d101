pub mod Messages
pub mod Parts
pub mod Progress
pub mod Subfields
pub mod Tables
pub mod Text
