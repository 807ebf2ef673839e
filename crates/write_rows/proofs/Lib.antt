pub mod RowSteps
