pub mod Numbers
pub mod Kept
pub mod Judged
pub mod Bits
pub mod Matched
pub mod Marking
pub mod Alike
