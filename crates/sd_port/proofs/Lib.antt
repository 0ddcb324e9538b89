pub mod NodeLines
pub mod LookSteps
pub mod DoneSteps
pub mod PortLemmas
pub mod AnswerSteps
