-- `Table`: the constant table, entry by entry.
mod Table
pub mod Examples
