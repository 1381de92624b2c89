pub mod MannerLemmas
pub mod PageFaults
pub mod HelpLemmas
pub mod RunLemmas
pub mod TakenLemmas
pub mod OnTwoLemmas
pub mod ReportLemmas
pub mod Complete
pub mod BatchLemmas
pub mod BatchRuns
pub mod Causes
pub mod MakingLemmas
pub mod WatchingLemmas
pub mod PublishingLemmas
mod Crossing
