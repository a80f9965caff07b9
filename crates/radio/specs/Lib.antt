-- What a reader of this crate must believe: where a message begins and its search, and worked examples of it.
pub mod Search
pub mod Worked
