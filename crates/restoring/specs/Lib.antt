-- What a reader of this crate must believe: the buffer, column by column (Rows); and what only contracts and proofs of leaves
-- name (Turns).
pub mod Rows
pub mod Turns
