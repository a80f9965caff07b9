-- The laws that the proofs of this crate share, and its theorems.
pub mod BlockLaws
pub mod Judged
pub mod Settled
pub mod Theorems
pub mod Worked
