pub mod Written
pub mod Levels
pub mod Writes
pub mod Drafts
