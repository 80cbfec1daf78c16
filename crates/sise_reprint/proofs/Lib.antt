pub mod Trees
pub mod Parsed
pub mod House
pub mod Reprinted
pub mod Returned
pub mod Final
pub mod FinalCalls
pub mod Instances
