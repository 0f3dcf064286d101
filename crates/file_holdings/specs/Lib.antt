pub mod Making
pub mod Files
pub mod Items
pub mod Judgement
