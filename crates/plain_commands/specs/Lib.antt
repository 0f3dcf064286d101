pub mod Entries
pub mod Totals
pub mod Loading
pub mod Passing
pub mod GivingBack
pub mod Making
