pub mod AnswerWord
