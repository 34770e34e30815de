pub mod FileChip
