pub mod Among
pub mod Counted
pub mod Errors
pub mod Lefts
pub mod Listings
pub mod Rows
pub mod SlotLists
pub mod Written
