-- One turn of the search for a block (Turns); and that what meets the contract is one answer (Settled).
pub mod Turns
pub mod Settled
