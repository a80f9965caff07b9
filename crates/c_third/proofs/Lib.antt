-- The laws of the five calls, and the theorems through C.
pub mod Laws
pub mod Theorems
