-- What a reader of this crate must believe, in document 01's order; Reasons is what change request 2026-02 promises of 19 to 22, Owing
-- what 2026-06 refuses. Bounds serves only contracts and proofs.
pub mod Table
pub mod Rules
pub mod Scan
pub mod Bounds
pub mod Reasons
pub mod Owing
pub mod ScanEnd
