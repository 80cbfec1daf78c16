pub mod Chars
pub mod Classes
pub mod Atom
pub mod Parts
pub mod Utf8
pub mod Examples
