pub mod Printed
pub mod Theorems
pub mod Desks
pub mod Loads
pub mod Refusals
