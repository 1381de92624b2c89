pub mod AdoptionFraming
pub mod Framing
pub mod FreshnessWalks
pub mod FreshnessOps
pub mod AdoptionFreshness
pub mod AdoptionDepth
pub mod Freshness
pub mod FreshnessTexts
pub mod FreshnessDocs
pub mod RenamingWalks
pub mod AdoptionGrowth
pub mod RenamingGrowth
pub mod AdoptionRenaming
pub mod PlainRows
pub mod Renaming
pub mod RenamingTexts
mod Counts
mod Readings
pub mod Calm
mod Pending
pub mod Resets
mod Depth
pub mod Takes
mod Walk
pub mod Rows
mod Rounds
pub mod Thinned
pub mod Closed
mod Proper
mod ProperModes
pub mod Contexts
pub mod NeverStops
pub mod FragmentTexts
