-- Lengths that pieces tell (Lengths), the profile over a run beside the plain reader (Profile), and the theorems.
pub mod Lengths
pub mod Profile
pub mod ThroughC
pub mod Theorems
