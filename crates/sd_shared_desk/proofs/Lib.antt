pub mod StandsLemmas
pub mod CallLemmas
pub mod CloseLemmas
pub mod CountLemmas
pub mod DeskLemmas
