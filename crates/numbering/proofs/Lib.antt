pub mod Numberlaws
pub mod Tablelaws
pub mod Pagelaws
