pub mod Tables
pub mod Schemas
pub mod Contents
pub mod Documents
pub mod Nests
pub mod Spelled
pub mod Identified
pub mod Printable
