-- The laws that the proofs of this crate share, and those that the crates above cite.
pub mod Refusals
pub mod Five
pub mod Accepted
pub mod GroupRows
pub mod Sound
pub mod Repeats
pub mod Settled
pub mod Refused
pub mod Blind
pub mod Warned
