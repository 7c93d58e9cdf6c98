-- Laws: what a `?` tells; where a type's words stand, its lifetimes; where types and rows end, the loop over the items of a record; the
-- shape of the records.
pub mod QuestionLaws
pub mod PathLaws
pub mod TypeLaws
pub mod LocatedLaws
pub mod FoundLaws
pub mod LifetimeLaws
pub mod EndLaws
pub mod ShapeLoops
pub mod ShapeLaws
-- The main theorem:
pub mod Theorems
