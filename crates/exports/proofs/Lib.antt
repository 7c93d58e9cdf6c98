-- Laws: a call with one slice more; what stands in a slice after its first words are stored; slices that are always
-- long enough. The main theorems.
pub mod ExportLaws
pub mod EnoughLaws
pub mod Theorems
