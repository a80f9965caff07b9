-- What a reader of this crate must believe: how each line reads (Text).
pub mod Text
