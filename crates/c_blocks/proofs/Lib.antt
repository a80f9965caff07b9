-- The laws of the calls on blocks (Laws), the theorems, and calls worked out by hand (Worked).
pub mod Laws
pub mod Theorems
pub mod Worked
