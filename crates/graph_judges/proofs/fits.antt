pub mod Least
pub mod Keys
pub mod SameKeys
pub mod Fitting
pub mod OneLink
pub mod LeastEnds
pub mod Unfit
