pub mod Finding
pub mod Salvages
pub mod Told
