-- The laws that the proofs of this crate share, and what the programs print.
pub mod StepLaws
pub mod CaseA
pub mod Theorems
