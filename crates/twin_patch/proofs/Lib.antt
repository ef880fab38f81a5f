mod Found
mod Edits
pub mod Ordered
mod Moved
mod Overlays
mod Merges
mod Drafts
mod Fronts
pub mod Sorted
mod Steps
mod Tokens
mod Entries
pub mod Distinct
mod Once
mod Parts
pub mod Existence
