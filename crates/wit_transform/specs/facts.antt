pub mod Distinct
pub mod ListsFrom
pub mod Looked
pub mod TransformedWorlds
pub mod UnnamedOnceTransformed
