mod Opened
mod LoadedFiles
mod Begun
mod Finished
pub mod Kept
mod Merging
pub mod OneHistory
mod Textual
pub mod Written
mod Missing
pub mod Ended
pub mod Ran
pub mod Requests
