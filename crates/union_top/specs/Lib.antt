pub mod Commands
pub mod Fits
pub mod Complete
pub mod Sure
pub mod Misfits
pub mod Carried
pub mod Begun
