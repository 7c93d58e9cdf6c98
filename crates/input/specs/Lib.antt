-- Definitions that private contracts of the programs cite.
pub mod Left
