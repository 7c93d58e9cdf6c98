-- Definitions that the contracts cite.
pub mod LoweredTypes
pub mod Rows
pub mod Places
pub mod Theorems
-- For private functions only
pub mod Inner
