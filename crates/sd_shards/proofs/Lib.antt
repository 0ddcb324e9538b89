mod EachLemmas
mod PlayedLemmas
mod HomeLemmas
mod InsideLemmas
mod StandingLemmas
mod ReportedLemmas
