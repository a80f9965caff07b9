-- What a reader of this crate must believe: what the five calls of the third code leave, and what the caller sees of it; and what
-- only contracts and proofs of leaves name (Answered).
pub mod Calls
pub mod Seen
pub mod Answered
