pub mod ByTable
pub mod Tables
pub mod FacesAndTrucks
