-- Laws for the programs.
pub mod LeftLaws
