pub mod Due
pub mod Ended
pub mod Rooms
pub mod ListedUnheld
