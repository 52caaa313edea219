-- Laws that the proofs of several functions cite.
pub mod Copies
mod Chosen
mod Chunks
mod Filling
mod Reporting
mod Singles
mod Telling
mod Texts
mod Walking
pub mod Laws
pub mod FileExamples
pub mod ReportExamples
pub mod SentenceExamples
