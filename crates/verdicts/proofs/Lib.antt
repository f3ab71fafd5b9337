pub mod Formed
pub mod Meanings
pub mod Compared
