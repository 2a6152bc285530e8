pub mod Writing
pub mod CsvCells
pub mod CsvRows
pub mod CsvUnits
