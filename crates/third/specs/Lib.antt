-- What a reader of this crate must believe: what each call answers and leaves, what the theorems speak of, and worked examples. The
-- field, a column's rules and the buffer stand in the crates below.
pub mod Answer
pub mod Written
pub mod Worked
