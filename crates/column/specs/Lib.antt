-- What a reader of this crate must believe: a column and its two rules, what restoring and mending make of it, and what the
-- theorems say of columns (Alike); and what only contracts and proofs of leaves name (Wrong).
pub mod Column
pub mod Alike
pub mod Wrong
