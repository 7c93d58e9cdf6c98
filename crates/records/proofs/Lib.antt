-- Laws: what is read is what stands there, where a reading ends, the loop over a record's items,
-- copying words.
pub mod ReadingLaws
pub mod EndLaws
pub mod ShapeLoops
pub mod CopyLaws
