-- Definitions that the contracts cite, and the statements of the main theorems.
pub mod Decimal
pub mod Number
pub mod Printing
pub mod Theorems
