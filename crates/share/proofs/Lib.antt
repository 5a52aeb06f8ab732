pub mod Laws
pub mod SizeLaws
pub mod PlacedLaws
pub mod FirstLaws
