-- The laws of the two calls, and the theorems through C.
pub mod Laws
pub mod Theorems
