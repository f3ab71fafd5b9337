pub mod Ending
pub mod Running
pub mod Living
pub mod Answered
pub mod Promised
pub mod Kept
pub mod Single
