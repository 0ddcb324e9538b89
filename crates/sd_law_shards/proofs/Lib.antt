pub mod BooksLemmas
pub mod EventsLemmas
pub mod HomeLemmas
pub mod MergedLemmas
pub mod PremiseLemmas
pub mod ShownLemmas
pub mod ReportedLemmas
pub mod ViewLemmas
