mod Blanks
pub mod TableLines
pub mod FieldsRead
pub mod FieldsWritten
pub mod FormsRead
pub mod ListsRead
pub mod NamesRead
pub mod PartsWritten
pub mod HexadecimalTexts
