-- What calls over lent slices share: outcomes with refusals (Outcome), searches in lists (Lists), parts of fields (Fields),
-- the table (Table), buffers (Buffer); and a bitmap for the code alone (Bitmap).
pub mod Outcome
pub mod Lists
pub mod Fields
pub mod Table
pub mod Buffer
pub mod ResolvedValue
pub mod Bitmap
