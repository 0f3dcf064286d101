pub mod Coming
pub mod Contents
pub mod Digests
pub mod Gates
pub mod Comparing
pub mod Verifying
pub mod Walking
