-- The laws that the proofs of this crate share.
pub mod Fresh
pub mod Casts
