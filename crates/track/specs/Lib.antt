-- What a reader of this crate must believe, in the order of source document 003, 9.4.9, and the one file that serves only proofs
-- (Bounds).
pub mod Sizes
pub mod Blocks
pub mod Answer
pub mod Worked
pub mod Bounds
