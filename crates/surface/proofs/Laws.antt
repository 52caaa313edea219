-- Laws about the definitions, for the proofs here and in the crates above.
pub mod Lane
pub mod File
pub mod Records
pub mod Held
pub mod Text
pub mod Report
pub mod Counts
pub mod Walk
pub mod Sentence
