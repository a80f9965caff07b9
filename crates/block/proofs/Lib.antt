-- The laws that the proofs of this crate and of those above it share, the refusals at one block, one block both ways, and blocks
-- worked out.
pub mod BlockLaws
pub mod Faults
pub mod OneBlock
pub mod Worked
