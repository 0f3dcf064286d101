pub mod ByTarget
