pub mod Kinds
pub mod Rule
pub mod Forms
pub mod NameRows
pub mod CueRows
pub mod Makings
