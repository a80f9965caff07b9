-- The laws that the proofs of this crate share, and what judging the sections as they are read comes to.
pub mod SectionLaws
pub mod Theorems
