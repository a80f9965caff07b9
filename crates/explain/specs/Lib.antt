-- What a reader of this crate must believe: the explanation of a read, and when it is true.
pub mod Explanation
pub mod Truth
