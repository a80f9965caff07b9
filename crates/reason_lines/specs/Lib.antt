-- What a reader of this crate must believe: how the lines of a refusal read (Lines), with some worked out by hand (Worked).
pub mod Lines
pub mod Worked
