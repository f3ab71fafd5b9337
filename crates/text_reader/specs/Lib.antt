pub mod Answer
pub mod Output
pub mod Parts
pub mod Readers
