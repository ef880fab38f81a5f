-- What public contracts cite.
pub mod Requests
pub mod Made
pub mod Machinery
