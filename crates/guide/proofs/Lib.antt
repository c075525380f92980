pub mod StreetLaws
