-- What a reader of this crate must believe: what each call answers and leaves, and what a refused read answers.
pub mod Answer
pub mod Refused
pub mod ReaderStart
pub mod ReadAnswer
