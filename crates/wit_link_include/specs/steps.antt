pub mod Included
