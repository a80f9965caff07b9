-- The laws that the proofs of this crate share, and those that the crates above cite.
pub mod CallLaws
pub mod Left
pub mod Ends
pub mod GetsOn
pub mod Settled
pub mod Blind
pub mod Theorems
pub mod Offering
