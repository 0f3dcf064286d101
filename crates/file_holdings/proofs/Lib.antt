pub mod Made
pub mod Given
pub mod Judged
pub mod Once
pub mod Every
