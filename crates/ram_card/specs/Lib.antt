pub mod RamChip
pub mod RamEnds
