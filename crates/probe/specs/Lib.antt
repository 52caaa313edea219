pub mod Failure
