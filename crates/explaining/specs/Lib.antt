-- What a reader of this crate must believe: what is told at each step of a run (Steps), and that a refusal has words (Said).
pub mod Steps
pub mod Said
