-- What a reader of this crate must believe: what the five calls on a loader's memory leave, and what the caller sees of it.
pub mod Calls
pub mod Seen
