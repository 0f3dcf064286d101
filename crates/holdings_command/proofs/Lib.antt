pub mod Rooms
pub mod OnShelves
pub mod Counting
pub mod Delivering
pub mod Unread
pub mod Endings
