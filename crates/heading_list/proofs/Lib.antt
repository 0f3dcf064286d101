pub mod Counts
pub mod Decoding
pub mod Firsts
pub mod Letters
pub mod Listings
pub mod Tracings
