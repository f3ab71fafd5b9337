pub mod Steps
pub mod Readings
pub mod Astray
pub mod Says
pub mod Answered
