-- What a reader of this crate must believe: what is told at each step of a run and how the run goes on after it.
pub mod Telling
