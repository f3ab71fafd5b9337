pub mod Texts
pub mod Verdicts
pub mod Theorems
