pub mod ListLaws
pub mod RangeLaws
pub mod WordLaws
pub mod PartLaws
pub mod ByteTurns
pub mod RegionLaws
