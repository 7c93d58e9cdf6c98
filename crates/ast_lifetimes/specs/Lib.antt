-- Definitions that the contracts cite, and the statements of the main theorems.
pub mod Shapes
pub mod Types
pub mod Env
pub mod Entries
pub mod DepthFirst
pub mod Examples
pub mod Theorems
-- For private functions only
pub mod Inner
