pub mod Bytes
pub mod Serializer
pub mod Calls
pub mod Parts
pub mod Plan
pub mod Phases
pub mod Words
pub mod Examples
