-- Laws, cases, and what the proofs of functions cite.
pub mod Laws
pub mod Putting
pub mod Joining
pub mod JoinExamples
