-- What a start and a read answer (Started, Judged), and that what meets a contract is one answer (Settled).
pub mod Started
pub mod Judged
pub mod Settled
