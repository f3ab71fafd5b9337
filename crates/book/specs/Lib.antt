pub mod Books
pub mod Entries
pub mod Puts
pub mod Pens
pub mod Makings
pub mod Line
