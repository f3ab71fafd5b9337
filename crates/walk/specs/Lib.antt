pub mod Order
pub mod Graph
pub mod Entry
pub mod Walk
pub mod Answer
pub mod Laws
pub mod Searches
