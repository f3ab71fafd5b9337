pub mod Numbers
pub mod Shapes
pub mod Building
pub mod Faulty
pub mod Counts
pub mod Answered
