pub mod Answers
pub mod Tabled
pub mod Matching
