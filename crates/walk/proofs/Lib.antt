pub mod Words
pub mod Cells
pub mod Traces
pub mod Minimal
pub mod Keeps
pub mod Answers
pub mod Orders
