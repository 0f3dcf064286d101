pub mod Helds
pub mod Kepts
pub mod SureRooms
