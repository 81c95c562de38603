pub mod Answers
pub mod AnswersV5
pub mod Counting
