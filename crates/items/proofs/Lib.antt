-- The laws of lists said turn by turn, which the proofs of this crate and of those above it share, and Table 3 worked out.
pub mod Turns
pub mod Worked
