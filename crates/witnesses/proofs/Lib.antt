pub mod Witness
pub mod Instances
pub mod VersionWitness
pub mod TripWitness
pub mod ConvertWitness
pub mod TagWitness
