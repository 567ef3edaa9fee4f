pub mod Profile
