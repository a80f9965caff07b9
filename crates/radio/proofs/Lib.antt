-- The laws that the proofs of this crate share, and its theorems.
pub mod SearchLaws
pub mod Settled
pub mod Theorems
pub mod Worked
