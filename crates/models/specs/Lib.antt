pub mod Bitsets
pub mod TablesOf
pub mod Machine
pub mod Clashes
pub mod Stepping
pub mod Told
pub mod Theorems
