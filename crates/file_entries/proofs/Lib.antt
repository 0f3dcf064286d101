pub mod Every
pub mod EveryPiece
pub mod EveryText
pub mod Given
pub mod Judged
pub mod Lasts
pub mod Once
