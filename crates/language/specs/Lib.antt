-- the language, and the reading of a text
pub mod Grammar
pub mod Machine
pub mod Read
pub mod Layout
-- what walk writes for a typed layout
pub mod TypedReport
-- what every text answers
-- every text of the language is read to its end
pub mod Built
-- every text that is read to its end belongs to the language
-- the machine is on exactly while some text of the language begins so
-- what is built is the cell of the tree, or too much
pub mod Viable
