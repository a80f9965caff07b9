-- What a reader of this crate must believe: the sections of a run, in the order of document 01, "Bench program".
pub mod Sections
