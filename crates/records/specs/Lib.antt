-- Definitions that the contracts cite.
pub mod Reading
pub mod Copied
-- For private functions only, of this crate and of those above
pub mod Ends
