mod ReciprocalLemmas
pub mod RegionSetLemmas
pub mod ShapeLemmas
pub mod SetLemmas
