-- What a reader of this crate must believe: what the three calls on blocks leave, and calls worked out by hand. Contracts
-- serves only contracts and proofs.
pub mod Calls
pub mod ForContracts
pub mod Worked
