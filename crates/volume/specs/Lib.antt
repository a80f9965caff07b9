-- What a reader of this crate must believe: Volume Information and its calls, and worked examples of it.
pub mod Information
pub mod Worked
