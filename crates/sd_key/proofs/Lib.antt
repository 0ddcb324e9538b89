mod CleanLemmas
mod TableLemmas
