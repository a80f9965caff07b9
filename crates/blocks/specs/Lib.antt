-- What a reader of this crate must believe: what the profile's start and its read answer. Bounds serves only contracts and
-- proofs.
pub mod Answer
pub mod Bounds
