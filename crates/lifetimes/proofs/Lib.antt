-- Laws of the definitions, and of the loops over plain values.
-- Of definitions:
pub mod SetLaws
pub mod BoundsLaws
pub mod EnvLaws
pub mod NeighbourLaws
pub mod ReverseLaws
pub mod WalkLaws
pub mod OutlivesLaws
pub mod ReachLaws
pub mod IntegerLaws
pub mod ChainLaws
pub mod IndexLaws
pub mod LinkedLaws
-- The main theorems:
pub mod Theorems
-- Of loops:
pub mod SetLoops
pub mod EnvLoops
pub mod IndexLoops
pub mod AdvanceLoops
pub mod WalkLoops
pub mod ReachLoops
-- Answers:
pub mod ReachAnswers
