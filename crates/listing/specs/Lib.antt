-- Definitions that the contracts cite, and the statements of the main theorems.
pub mod Listing
pub mod Examples
pub mod Theorems
-- For private functions only
pub mod InnerSections
pub mod InnerListing
