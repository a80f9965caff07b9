-- What a reader of this crate must believe: numbers and ranges, and what a store leaves.
pub mod Numbers
pub mod Store
