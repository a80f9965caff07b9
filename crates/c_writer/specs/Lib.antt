-- What a reader of this crate must believe: what the start of a writer, a record, a separator and an end leave, when they are
-- accepted, and calls worked out by hand.
pub mod Calls
pub mod Accepted
pub mod Worked
