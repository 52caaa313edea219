-- Laws about the definitions, for the proofs here and in the crates above.
pub mod Gather
pub mod Memory
pub mod Refusal
pub mod Lists
pub mod MeshMemory
pub mod Elevation
pub mod SurfaceMesh
pub mod Outline
pub mod Ears
pub mod JunctionMesh
