-- `Words`: what is not 0. `Digits`: the digits of what lies between two numbers. `Columns`: the product of two words by two.
-- `Tens`, `Row`: from the digits of a product to those of the decimal number.
mod Words
mod Digits
mod Columns
mod Tens
mod Row
