-- The laws that the proofs of this crate share, and that every refusal of a run has words.
pub mod StepLaws
pub mod Words
