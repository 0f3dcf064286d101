pub mod Ascii
pub mod Comparison
pub mod Entry
pub mod Form
pub mod Pen
pub mod Table
