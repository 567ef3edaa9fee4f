-- `Even` moves a kept number up by one; `Round` makes it the rounding of a word.
mod Even
mod Round
