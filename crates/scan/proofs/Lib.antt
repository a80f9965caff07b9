-- The laws that the proofs of this crate share.
pub mod Turns
pub mod Stretches
