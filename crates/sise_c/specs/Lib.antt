pub mod Reports
pub mod Items
pub mod ItemExamples
pub mod Passes
pub mod Records
pub mod Singly
pub mod SinglyExamples
