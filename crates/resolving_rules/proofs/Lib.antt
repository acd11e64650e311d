-- Laws about the rules of resolving: what an accepted record and an accepted list are made of (ResolveLaws), and an accepted
-- call (ResolvedLaws).
pub mod ResolveLaws
pub mod ResolvedLaws
