pub mod Fields
pub mod NameError
pub mod NameText
