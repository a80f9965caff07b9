-- The laws that the proofs of this crate share, and those that the crates above cite.
pub mod Tests
pub mod Computed
pub mod Stores
pub mod NumberLaws
pub mod InBytes
pub mod InEights
