-- `Whole`: the product and the quotient of two whole numbers that are f64s. `Short`: what the tests say.
mod Whole
mod Short
