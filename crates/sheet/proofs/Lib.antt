-- Laws of the definitions, and of the loops over plain values.
pub mod TextLaws
pub mod SpellingLaws
pub mod SheetLaws
pub mod ReadingCases
pub mod ShapeCases
-- Of loops:
pub mod NumberLaws
pub mod HeadingLaws
pub mod WordLaws
pub mod LinesLaws
-- Answers:
pub mod ReadingLaws
pub mod LaidLaws
-- The main theorems:
pub mod Theorems
