-- What the exported calls answer and write; the main theorems.
pub mod Calls
pub mod Theorems
