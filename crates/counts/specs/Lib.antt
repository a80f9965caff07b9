-- What a reader of this crate must believe: Counts. Parts serves only contracts and proofs.
pub mod Counts
pub mod Parts
