-- The laws that the proofs of this crate share, and those that the crates above cite.
pub mod Faults
pub mod Scans
pub mod Suits
pub mod Reasons
pub mod EarlyAt
pub mod Owing
pub mod Tables
