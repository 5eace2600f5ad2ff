pub mod PackageOrder
