-- Laws of the definitions, and of the loops over plain values.
pub mod LargeLaws
pub mod PrintLaws
pub mod WriteLaws
pub mod LaidLaws
-- The main theorems:
pub mod Theorems
