-- The laws of a reader's two calls, and the theorems.
pub mod Laws
pub mod Theorems
pub mod Worked
