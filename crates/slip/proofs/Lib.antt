pub mod Once
pub mod Calling
pub mod Loading
pub mod Comparing
pub mod Spelling
pub mod Lined
pub mod Wholes
