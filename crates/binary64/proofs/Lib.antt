-- `Nan`: the NaN that code makes. `Sign`: the absolute value by bits.
mod Nan
mod Sign
pub mod Meaning
