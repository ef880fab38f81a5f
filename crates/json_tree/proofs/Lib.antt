pub mod Choices
pub mod Views
pub mod Keyed
pub mod Parts
mod Escaped
mod Printed
pub mod Printable
mod Characters
pub mod FirstKeys
mod TreeItems
mod Tied
mod SortedParts
mod Indices
pub mod Evaluated
pub mod Stepped
pub mod OnePointer
pub mod Preorder
pub mod DistinctKeys
pub mod FirstPlaces
