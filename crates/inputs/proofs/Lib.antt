-- Laws of the lent lists: their entries, two or four bytes at a time (TableLaws); of a bitmap (BitmapLaws), and of one of the sources
-- that were met (SeenLaws); of accepted outcomes (AcceptedLaws), and of what stands in their buffers (BufferLaws).
pub mod TableLaws
pub mod BitmapLaws
pub mod SeenLaws
pub mod AcceptedLaws
pub mod BufferLaws
