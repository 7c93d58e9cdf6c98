-- Laws of the definitions, and of the loops over plain values.
-- Verdicts, and the shape of the records:
pub mod OptionLaws
pub mod ShapeLaws
pub mod ReadingLaws
pub mod TypesLaws
-- Names, pairs, entries:
pub mod NamesLaws
pub mod BoundsLaws
pub mod EntryLaws
-- An environment under way, and what types imply:
pub mod StandsLaws
pub mod OutlivedLaws
pub mod PathLaws
pub mod PathLoops
pub mod ImpliedLaws
-- The environment:
pub mod EnvLaws
pub mod ThanLaws
pub mod ItemLaws
pub mod AcceptedLaws
pub mod ExtendLaws
pub mod DepthFirstLaws
-- The main theorems:
pub mod Theorems
