-- The laws that the proofs of this crate share, what an explanation comes to (Theorems), and that two of them coincide (Settled).
pub mod Scanned
pub mod Told
pub mod Theorems
pub mod Only
pub mod Settled
