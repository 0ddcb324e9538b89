mod PutLists
mod ReportedLemmas
