pub mod Encoding
pub mod Joined
pub mod PageOf
pub mod Firsts
pub mod Cut
pub mod Links
