pub mod Fields
pub mod Reciprocal
pub mod Regions
pub mod Sets
pub mod Shape
