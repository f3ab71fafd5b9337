pub mod Grammar
pub mod Reads
pub mod Refusals
pub mod Trees
pub mod Theorems
