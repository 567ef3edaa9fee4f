pub mod Table
pub mod Words
pub mod RefusalLaws
pub mod TableLaws
