pub mod TermViews
pub mod OneTerm
pub mod SameElements
pub mod SameDeclarations
pub mod ByName
pub mod Keyed
