pub mod KnownSets
pub mod ActionRow
