-- `Leading`: the highest digits, and their rounding.
mod Leading
