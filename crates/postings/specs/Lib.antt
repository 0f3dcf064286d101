pub mod Group
pub mod Counts
pub mod Slot
pub mod RecordSlots
pub mod Slots
pub mod Listed
