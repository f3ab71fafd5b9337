pub mod Formed
pub mod Loading
pub mod Comparing
pub mod Joint
