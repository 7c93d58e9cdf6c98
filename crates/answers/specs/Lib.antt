-- Definitions that the contracts of all crates cite, and the statement of the theorem of refusals.
pub mod Lists
pub mod Refusals
pub mod Lent
pub mod Theorems
