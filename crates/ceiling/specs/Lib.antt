-- what is claimed
pub mod Ceiling
-- the theorem, and what it says of the worked example
-- a number that every changing step lowers
pub mod Rank

-- so many calls
