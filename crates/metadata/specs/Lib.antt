-- What is right for metadata: numbers as text (Decimal), what attributes tell (Metadata), how the code keeps it (MetadataValue), the two calls
-- (Calls), and that what is written is read back (RoundTrip).
pub mod Decimal
pub mod Metadata
pub mod MetadataValue
pub mod Calls
pub mod RoundTrip
pub mod Example
