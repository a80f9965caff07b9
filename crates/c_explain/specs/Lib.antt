-- What a reader of this crate must believe: what the call that explains a read leaves, when that is true and reading's own, and
-- explanations worked out by hand.
pub mod Calls
pub mod Truth
pub mod Worked
