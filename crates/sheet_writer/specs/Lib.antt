-- Definitions that the contracts cite, and the statements of the main theorems.
pub mod Writing
pub mod Laid
pub mod Examples
pub mod Theorems
