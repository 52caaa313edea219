-- The definitions: a file for each part of document 01's "Surface file and `probe`", and for each of document 02's requests that has its own.
pub mod Lane
pub mod File
pub mod Kind
pub mod FileSteps
pub mod Held
pub mod Lent
pub mod Text
pub mod Report
pub mod ReportSteps
pub mod Sentence
pub mod SentenceSteps
