pub mod Words
pub mod Sets
pub mod Meaning
pub mod Theorems
