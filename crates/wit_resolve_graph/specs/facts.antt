pub mod NamedWorlds
