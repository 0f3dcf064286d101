pub mod Tables
pub mod Parts
pub mod Numbers
pub mod Rewriting
