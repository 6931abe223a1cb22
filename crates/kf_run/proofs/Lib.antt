pub mod ProgramRuns
pub mod Given
pub mod Options
