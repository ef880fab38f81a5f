pub mod Phrases
pub mod Grammar
pub mod Texts
pub mod Bindings
pub mod Spelled
pub mod Machinery
