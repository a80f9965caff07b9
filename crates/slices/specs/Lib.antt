-- What a reader of this crate must believe: the one shape of a call from C.
pub mod Call
