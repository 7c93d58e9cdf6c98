-- Laws of the definitions, and of the loops over plain values.
pub mod DigitLaws
pub mod LineLaws
pub mod PrintLaws
pub mod NumberLaws
pub mod InverseLaws
pub mod FoundLaws
-- The main theorems:
pub mod Theorems
