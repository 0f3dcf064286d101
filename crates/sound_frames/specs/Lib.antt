pub mod Sound
pub mod Looking
