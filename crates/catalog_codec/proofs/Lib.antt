pub mod ListedFields
