pub mod Answers
pub mod Compares
pub mod Runs
pub mod Promise
pub mod Lives
pub mod Keeping
