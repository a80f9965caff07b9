-- What a reader of this crate must believe, in document 01's order, and the one file that serves only contracts and proofs
-- (Contracts).
pub mod Sizes
pub mod Entries
pub mod Flags
pub mod State
pub mod ForContracts
