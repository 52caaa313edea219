-- The definitions, a file for each group of operations; what the private functions promise.
pub mod Binary
pub mod Root
pub mod Whole
pub mod Width
pub mod Extremes
pub mod Stored
pub mod Hypot
pub mod Thresholds
pub mod Steps
pub mod Numbers
