pub mod AsciiLemmas
pub mod Computing
pub mod EndLemmas
pub mod FormLemmas
pub mod PenLemmas
