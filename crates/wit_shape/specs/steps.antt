pub mod NamedOwners
