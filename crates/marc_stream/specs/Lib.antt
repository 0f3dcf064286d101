pub mod Next
pub mod Pieces
pub mod Stream
pub mod View
pub mod Window
