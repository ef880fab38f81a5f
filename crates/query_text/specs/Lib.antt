pub mod Printed
pub mod Machinery
