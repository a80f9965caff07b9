-- What a reader of this crate must believe: the rows of a table.
pub mod Rows
