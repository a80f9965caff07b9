-- What a reader of this crate must believe: the six numbers of an answer, what a refusal leaves, the numbers of the refusals, the refusal
-- that a number tells, and what a result of the code tells. NotZero serves only the trait of refusals.
pub mod Answer
pub mod NotZero
pub mod Numbers
pub mod Results
pub mod Tried
