-- What a reader of this crate must believe: the header of source document 003, 9.4.9.1, and what is worked out of it.
pub mod Header
pub mod Worked
