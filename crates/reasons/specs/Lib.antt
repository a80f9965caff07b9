-- What a reader of this crate must believe: the rules of an entry one by one, the numbers of a reason, and when they are true.
pub mod Rules
pub mod Reasons
pub mod Truth
