pub mod Answers
pub mod Cases
pub mod Input
pub mod Ops
pub mod Words
