pub mod Fields
pub mod Limits
pub mod Order
pub mod Refusals
pub mod Sums
pub mod Texts
pub mod Valid
