-- Numbers and the bytes that they stand for (IdLaws, IdentLaws); rows and the lists of the rules (ListLaws, IndexLaws); what hints say of rows (HintLaws);
-- what a change of one table or of a hint leaves alone (FrameLaws), and changes with hints (ChangeLaws); for each function the array that shows
-- the rule's state (ImportedLaws to ModulesLaws), and what a pass is set to (SettingLaws); and laws on the rules' state for callers: specifiers one by one (NamespaceLaws, ExtendLaws),
-- forced sources (SourcedLaws), the second pass (SecondLaws). What stands at a place of a list (PlaceLaws).
pub mod IdLaws
pub mod IdentLaws
pub mod ListLaws
pub mod LiesLaws
pub mod IndexLaws
pub mod HintLaws
pub mod FrameLaws
pub mod ChangeLaws
pub mod ImportedLaws
pub mod UsageLaws
pub mod RecordLaws
pub mod CollectLaws
pub mod NamespaceLaws
pub mod ExtendLaws
pub mod ForcedLaws
pub mod RestLaws
pub mod SettingLaws
pub mod ModulesLaws
pub mod SourcedLaws
pub mod SecondLaws
pub mod PlaceLaws
pub mod FrontLaws
