pub mod Endings
pub mod Findings
pub mod Texts
