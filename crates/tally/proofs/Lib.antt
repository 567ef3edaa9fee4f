-- `Steps`: from what each function leaves to its definition.
mod Steps
