-- What the call answers and leaves (Answer); a pass over a module's items (Passes), and what the call's stages do (Stages).
pub mod Answer
pub mod Passes
pub mod Stages
