-- What the walk does to a field of each tag (TagLaws), to rows (RowLaws) and to fields by their rows (NodeLaws); what stays as it is (LeafLaws).
-- Chains of members in the second pass (ChainLaws) and their usages in the first (UsedLaws); idents and members (ExpressionLaws), names
-- (NameLaws), calls (CalledLaws, CallWalkLaws), declarators (DeclaratorLaws), and what a call of require changes (AmendLaws).
pub mod TagLaws
pub mod RowLaws
pub mod NodeLaws
pub mod LeafLaws
pub mod ChainLaws
pub mod UsedLaws
pub mod ExpressionLaws
pub mod NameLaws
pub mod CalledLaws
pub mod CallWalkLaws
pub mod DeclaratorLaws
pub mod AmendLaws
