pub mod Numbers
pub mod Things
pub mod PageSize
pub mod Pages
pub mod Seats
