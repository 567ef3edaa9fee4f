-- `Words`: Horner's rule in words is Horner's rule.
mod Words
