mod CutLemmas
mod FieldLemmas
mod LineLemmas
mod NameLemmas
mod PieceLemmas
