pub mod Texts
pub mod Slices
pub mod Lists
pub mod Passing
pub mod Codes
pub mod Pieces
pub mod Sublaws
pub mod Fieldlaws
