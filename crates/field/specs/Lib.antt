-- What a reader of this crate must believe: the field of the third code, and its two tables by their rules.
pub mod Field
pub mod Tables
