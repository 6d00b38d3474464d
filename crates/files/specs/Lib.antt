pub mod Fields
pub mod Files
pub mod Lines
pub mod FieldByField
pub mod Spelling
pub mod Splitting
