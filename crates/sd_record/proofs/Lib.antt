pub mod FigureLemmas
pub mod FillLemmas
pub mod OrderLemmas
pub mod RecordLemmas
pub mod TimerLemmas
pub mod RowLemmas
pub mod WriteSteps
