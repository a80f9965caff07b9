-- What a reader of this crate must believe: a state as the bytes of its slice, and back.
pub mod States
