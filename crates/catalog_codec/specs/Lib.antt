pub mod Catalog
pub mod CatalogLaws
pub mod Conditions
pub mod KindLaws
pub mod Kinds
pub mod ObjectLaws
