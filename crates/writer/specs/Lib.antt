-- What a reader of this crate must believe: what each call answers and leaves, what the firmware is told, what a contract says;
-- and when an offer gets on. Leaves serves only contracts.
pub mod Calls
pub mod Offers
pub mod WriteAnswer
pub mod Leaves
