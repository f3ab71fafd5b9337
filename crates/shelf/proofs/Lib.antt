pub mod Reading
pub mod Cells
pub mod Refining
pub mod Contents
pub mod Answered
