-- What a reader of this crate must believe: how a number, a word and a kind's name read (Words). Added serves contracts and proofs.
pub mod Words
pub mod Added
