mod Selected
pub mod PackageRows
pub mod PackagesOrdered
pub mod Unfolds
pub mod ValidBits
pub mod ValidParts
