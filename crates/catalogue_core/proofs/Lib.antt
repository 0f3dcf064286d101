mod Catalogues
mod Engines
pub mod Entries
pub mod Standings
