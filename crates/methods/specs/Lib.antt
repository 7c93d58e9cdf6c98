-- Definitions that the contracts cite.
pub mod Method
pub mod Used
pub mod Fields
pub mod Examples
pub mod Theorems
-- For private functions only
pub mod Inner
