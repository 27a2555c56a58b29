-- what is claimed
pub mod FileFaults
pub mod Refusals
pub mod AfterCalls
pub mod Printed
pub mod TwoSteps
pub mod Agrees
pub mod ByWord
pub mod NoMore
pub mod TouchTotal
pub mod FirstCome
pub mod FileTree
pub mod SameListings
pub mod Asking
pub mod Where
-- the theorems
-- the refusals of a load, of the reading of a text, of an ask and of a commit, of a question where a place is
-- the invariant and the ways a step can go
pub mod Reading
pub mod Invariant
pub mod Ways
-- soundness as a test and as a proposition
-- every step keeps the invariant
-- what an ask tells
-- an accepted load
pub mod Fresh
-- while an agent is awake, somebody can go on
-- the plain tree beside the cell
-- walks outwards
-- the log of arrivals beside the row
-- listings and trees
-- nine steps
pub mod Whole
