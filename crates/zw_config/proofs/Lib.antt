pub mod KeyLemmas
pub mod ElementLemmas
pub mod RootLemmas
pub mod OverrideLemmas
pub mod DocumentLemmas
pub mod ProgramLemmas
pub mod HookLemmas
pub mod SettingLemmas
