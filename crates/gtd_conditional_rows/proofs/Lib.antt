pub mod BothLemmas
pub mod ClosedLemmas
pub mod GroupLemmas
pub mod ListingLemmas
pub mod OverrideLemmas
pub mod RowLemmas
pub mod SizeLemmas
pub mod TypeLemmas
