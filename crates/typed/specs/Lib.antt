-- what is claimed
pub mod TermTyped
pub mod Loaded
pub mod ReadBack

-- the theorems
-- a cell that is read is fresh
-- and has the term of the tree
-- the term of a sound table can be typed, and fits
