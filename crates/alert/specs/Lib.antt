-- What a reader of this crate must believe: the Tape Alert flags and their calls, and worked examples of them.
pub mod Flags
pub mod Worked
