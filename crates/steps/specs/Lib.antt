-- Numbers of the walk's refusals (Refusal); how the code's steps stand to the rules (Step).
pub mod Refusal
pub mod Step
