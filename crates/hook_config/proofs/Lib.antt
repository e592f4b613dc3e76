pub mod NameCounts
pub mod FirstWords
pub mod Views
pub mod HookLists
pub mod KeyLists
pub mod ShortTexts
pub mod StageLists
pub mod TextLists
