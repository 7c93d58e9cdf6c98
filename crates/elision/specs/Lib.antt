-- Definitions that the contracts cite, in order.
pub mod Steps
pub mod Rfc
pub mod Machine
pub mod Lowering
-- Definitions of a theorem's statement: no contract cites them
pub mod StepChecks
-- Examples, and statements of the main theorems
pub mod Examples
pub mod Theorems
-- For private functions only
pub mod Inner
