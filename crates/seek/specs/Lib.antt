-- What a reader of this crate must believe: where a block begins, from a group's rows.
pub mod Find
