pub mod Models
pub mod Cases
pub mod Kinds
