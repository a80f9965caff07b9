-- What a reader of this crate must believe: nothing but what serves its contracts.
pub mod ForContracts
