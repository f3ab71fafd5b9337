pub mod Code
pub mod Tree
pub mod Build
pub mod Checked
pub mod Theorems
pub mod Counting
