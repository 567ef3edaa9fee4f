pub mod Cel
