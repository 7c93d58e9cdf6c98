-- Laws: joined lists and words of edges; outcomes; a run of visits; what a parameter brings; which lifetimes draw; storing edges;
-- a visit; a new visitor; the numberings; the listing, its order, its size, and the visits that give it.
pub mod JoinLaws
pub mod OutcomeLaws
pub mod VisitsLaws
pub mod BringsLaws
pub mod EdgesLaws
pub mod EdgesLoops
pub mod VisitorLaws
pub mod NewLaws
pub mod Condition3Laws
pub mod ListedLaws
pub mod ConsistentLaws
pub mod SmallLaws
pub mod InTurnLaws
-- A sheet's method:
pub mod MethodLaws
pub mod SheetLaws
pub mod BorrowLaws
-- The main theorems:
pub mod Theorems
