pub mod Adding
pub mod Counted
pub mod Escaping
pub mod Marks
pub mod Rows
pub mod Tags
pub mod Tops
pub mod Totals
