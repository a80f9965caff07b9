-- What a scan gives is said in entry; this serves contracts and proofs only.
pub mod Stretch
