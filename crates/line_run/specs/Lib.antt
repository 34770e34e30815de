pub mod Answering
pub mod Answers
pub mod AnswersLaws
pub mod Causes
pub mod CutOff
pub mod Extent
pub mod Moments
