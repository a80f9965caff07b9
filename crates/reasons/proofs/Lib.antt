-- The laws that the proofs above cite: which rule an entry's fault is, and that a rule is broken by the numbers that are told.
pub mod Order
pub mod Numbers
