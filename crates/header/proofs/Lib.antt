-- The laws that the proofs of this crate and of those above it share, and its theorem.
pub mod HeaderLaws
pub mod TakenApart
pub mod Worked
