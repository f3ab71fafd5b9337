pub mod Pairs
pub mod PairsSound
pub mod Compares
pub mod Theorems
