pub mod Card
pub mod Shown
