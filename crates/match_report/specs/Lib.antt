pub mod Groups
pub mod Postings
pub mod Isbn
pub mod Matches
pub mod Numbers
pub mod Walk
