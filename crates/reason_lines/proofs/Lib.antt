-- The laws that the proofs of this crate share, and the worked lines.
pub mod LineLaws
pub mod Worked
