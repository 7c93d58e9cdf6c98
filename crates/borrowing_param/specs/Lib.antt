-- Definitions that the contracts cite, and the statements of the main theorems.
pub mod Edges
pub mod Brings
pub mod Visit
pub mod VisitParam
pub mod Visits
pub mod New
pub mod BorrowMap
pub mod Consistent
pub mod SheetMethod
pub mod Borrows
pub mod Condition3
pub mod Examples
pub mod Theorems
-- For private functions only
pub mod Inner
pub mod InnerMap
pub mod InnerSheet
