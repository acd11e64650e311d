-- The ways of an id to stand in one tree (WaysLaws), lists of ways (HowLaws); imports hold no use (QuietLaws), dropped items no id
-- (DroppedLaws); the specifiers of an import (LocalsLaws); what the clauses of 'well placed' say of each import (PlacedLaws, DefaultLaws).
pub mod WaysLaws
pub mod HowLaws
pub mod QuietLaws
pub mod DroppedLaws
pub mod LocalsLaws
pub mod PlacedLaws
pub mod DefaultLaws
