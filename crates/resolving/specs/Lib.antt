-- What the call answers (Answer); records that were read (Records), the numbers of their sources (Numbers), their specifiers (Specifiers),
-- what is written of them (Writes), and what the call's stages leave (Stages).
pub mod Answer
pub mod Records
pub mod Numbers
pub mod Specifiers
pub mod Writes
pub mod Stages
