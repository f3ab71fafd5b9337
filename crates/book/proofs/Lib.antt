pub mod Laid
pub mod Fronts
pub mod Theorems
pub mod Written
pub mod Shown
