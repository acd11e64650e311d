pub mod Digits
pub mod Write
pub mod Hex
pub mod Decimal
pub mod Fields
