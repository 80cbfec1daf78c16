pub mod Reprint
pub mod Equal
pub mod Examples
