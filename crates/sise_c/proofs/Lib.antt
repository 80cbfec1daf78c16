pub mod ItemLaws
pub mod ItemCalls
pub mod RecordLaws
pub mod SinglyLaws
