-- The definitions of document 02, "Lanes and junctions as one surface".
pub mod Join
pub mod JoinSteps
