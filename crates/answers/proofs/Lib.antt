-- Laws of the definitions, and what proofs of several crates share.
pub mod ListLaws
pub mod RefusalLaws
pub mod VerdictLaws
pub mod LentLaws
pub mod Copying
-- The main theorem:
pub mod Theorems
