mod ExampleValues
pub mod PackedRuns
pub mod RowOctets
pub mod Splitting
