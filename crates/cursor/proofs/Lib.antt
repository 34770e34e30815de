pub mod NextRow
