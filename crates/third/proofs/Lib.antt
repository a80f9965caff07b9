-- The laws that the proofs of the calls share, that each call's contract settles what it gives, the theorems, and the worked examples.
pub mod Answers
pub mod Buffers
pub mod Settled
pub mod Theorems
pub mod Worked
