-- Definitions that the contracts cite, and the statements of the main theorems.
pub mod Text
pub mod Reading
pub mod Answer
pub mod Shape
pub mod Examples
pub mod Theorems
-- For private functions only
pub mod Inner
