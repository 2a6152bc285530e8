pub mod Writing
pub mod CsvRows
pub mod CsvUnits
