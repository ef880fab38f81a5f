-- What public contracts cite.
pub mod Lines
pub mod FirstFaults
pub mod Refusing
pub mod Machinery
pub mod batches
pub mod faultless
