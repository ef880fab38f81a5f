pub mod Sorting
pub mod Objects
pub mod Numbers
pub mod Canonical
pub mod Identified
pub mod Machinery
