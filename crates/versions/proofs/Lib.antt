pub mod TableLaws
pub mod RuleLaws
pub mod VersionLaws
