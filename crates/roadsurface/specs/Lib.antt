-- What the exported functions say, by what the inner calls answer.
pub mod Answers
