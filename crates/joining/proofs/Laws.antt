-- Laws about the definitions.
pub mod Least
pub mod Moved
pub mod Faults
pub mod Join
pub mod JoinLookup
pub mod JoinLanes
