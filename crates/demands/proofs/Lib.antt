pub mod Numbers
pub mod Total
pub mod Units
