-- The operations on points and vectors, a file for each source file of the Rust, and the arithmetic that they are written in.
pub mod Single
pub mod Coords
pub mod Geometry
