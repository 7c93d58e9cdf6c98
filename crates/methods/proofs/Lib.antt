-- Laws: passes over types and rows that were read; struct types that fit; the lifetimes of the output.
pub mod PassLaws
pub mod FitsLaws
pub mod OutputLaws
pub mod RowLaws
pub mod MethodLaws
pub mod UsedLaws
pub mod FieldsLaws
pub mod UsedSetLaws
pub mod FieldPairLaws
-- The main theorems:
pub mod Theorems
