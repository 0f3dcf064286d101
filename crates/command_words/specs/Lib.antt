pub mod Topics
pub mod Command
pub mod Look
pub mod Asked
