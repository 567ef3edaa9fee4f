pub mod Line
pub mod FieldLaws
pub mod StepLaws
pub mod HeldLaws
