-- The laws of a writer's four calls, and the theorems.
pub mod Laws
pub mod Theorems
pub mod Worked
