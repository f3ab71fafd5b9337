pub mod Tables
pub mod Words
pub mod Layers
pub mod Piles
pub mod Laws
pub mod Places
pub mod Least
