-- The laws that the proofs of this crate share, and those that the crates above cite.
pub mod Counts
