-- What the exported calls answer: a refusal's number and place in one number, and the bytes that metadata and a scope come
-- back as (Answer); what the calls leave that start a scope (Calls).
pub mod Answer
pub mod Calls
