pub mod Catalogues
pub mod Engines
pub mod Standings
pub mod Told
