-- `Far`: which decimal numbers the long road does not reach, and what they round to.
mod Far
