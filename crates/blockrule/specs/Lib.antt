-- What a reader of this crate must believe: the rule of a block. Bounds serves only contracts and proofs.
pub mod Rule
pub mod Bounds
