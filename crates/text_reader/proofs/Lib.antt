pub mod Final
pub mod Outputs
pub mod Steps
