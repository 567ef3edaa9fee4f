pub mod Scanned
pub mod ScannedLaws
pub mod Said
pub mod SaidLaws
pub mod Whole
pub mod Read
pub mod Examples
