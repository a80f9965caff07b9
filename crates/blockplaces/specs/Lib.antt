-- What a reader of this crate must believe: where a block begins in a run's layout, by its pieces and by its records.
pub mod Places
